pub mod Sixteen
pub mod Laws
