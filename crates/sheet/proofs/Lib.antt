pub mod Machine
pub mod Rooms
pub mod Numbers
pub mod Feeding
pub mod Small
pub mod Proved
