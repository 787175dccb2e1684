pub mod Counting
pub mod Windows
pub mod Proved
