pub mod Counting
pub mod Machine
pub mod Rooms
pub mod Feeding
pub mod Proved
