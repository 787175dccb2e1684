pub mod Rooms
pub mod Storing
pub mod Readings
pub mod Proved
