pub mod Sights
pub mod Codes
pub mod Proved
