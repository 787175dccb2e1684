pub mod Times
pub mod Taken
pub mod Laws
