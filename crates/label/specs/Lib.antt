pub mod Layout
pub mod Number
pub mod Packet
pub mod Pil
pub mod Laws
