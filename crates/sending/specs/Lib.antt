pub mod Sending
pub mod Laws
