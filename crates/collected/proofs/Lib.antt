pub mod Keeping
pub mod Machine
pub mod Readings
pub mod Proved
