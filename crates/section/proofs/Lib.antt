pub mod Entered
pub mod Machine
pub mod Left
pub mod Sheets
pub mod Proved
