pub mod Title
pub mod Row
pub mod Taken
pub mod Laws
