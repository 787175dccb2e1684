pub mod Bits
pub mod Round
pub mod Proved
