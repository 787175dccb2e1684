pub mod Section
pub mod Asked
pub mod Taken
pub mod Laws
