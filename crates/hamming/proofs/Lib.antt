pub mod Ones
pub mod Bits
pub mod Nearest
pub mod Bytes
pub mod Checks
pub mod Proved
