pub mod Facts
pub mod Proved
