pub mod Update
pub mod Proved
