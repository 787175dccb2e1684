pub mod Rooms
pub mod Proved
