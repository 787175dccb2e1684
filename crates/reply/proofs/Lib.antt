pub mod Back
pub mod Proved
