pub mod Matching
pub mod Look
pub mod Laws
