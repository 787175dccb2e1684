pub mod Steps
pub mod Proved
