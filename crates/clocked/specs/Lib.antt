pub mod Clocked
pub mod Laws
