pub mod Ahead
pub mod Given
pub mod Contained
pub mod Texts
pub mod Values
pub mod Proved
