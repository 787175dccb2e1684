pub mod Sequence
pub mod Laws
