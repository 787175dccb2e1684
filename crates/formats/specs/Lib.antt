pub mod Formats
pub mod Taken
pub mod Laws
