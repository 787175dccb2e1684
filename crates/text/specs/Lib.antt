pub mod Columns
pub mod Printed
pub mod Laws
