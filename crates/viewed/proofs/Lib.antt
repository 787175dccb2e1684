pub mod Back
pub mod Through
pub mod Stored
pub mod Proved
