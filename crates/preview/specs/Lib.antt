pub mod Page
pub mod Taken
pub mod Rows
pub mod Laws
