pub mod Pages
pub mod Triplets
pub mod Packets
pub mod Answered
pub mod Bytes
pub mod Proved
