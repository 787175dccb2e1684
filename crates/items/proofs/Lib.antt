pub mod Numbers
pub mod Machine
pub mod Longest
pub mod Taking
pub mod Proved
