pub mod Word
pub mod Checks
pub mod Laws
