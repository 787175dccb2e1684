pub mod Tests
pub mod Listed
pub mod Sends
pub mod Proved
