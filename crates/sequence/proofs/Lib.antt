pub mod Made
pub mod Along
pub mod Proved
