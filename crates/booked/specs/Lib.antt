pub mod Timer
pub mod Laws
