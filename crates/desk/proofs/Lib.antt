pub mod Settle
pub mod Jump
pub mod Turns
pub mod Fast
pub mod Gate
pub mod Only
pub mod Proved
