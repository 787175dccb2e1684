pub mod Data
pub mod Taken
pub mod Laws
