pub mod Filled
pub mod Through
pub mod Proved
