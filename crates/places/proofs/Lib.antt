pub mod Ages
pub mod Search
pub mod Codes
pub mod Proved
