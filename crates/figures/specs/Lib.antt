pub mod Permitted
pub mod Taken
pub mod Laws
