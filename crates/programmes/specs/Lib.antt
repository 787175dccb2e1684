pub mod Meaning
pub mod Page
pub mod Written
pub mod Timer
pub mod Laws
