pub mod Collected
pub mod Laws
