pub mod Rooms
pub mod Storing
pub mod Printing
pub mod Proved
