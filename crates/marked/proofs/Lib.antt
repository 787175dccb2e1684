pub mod Rules
pub mod Twelve
pub mod Close
pub mod Standing
pub mod Prepared
pub mod Terminated
pub mod Proved
