pub mod Moments
pub mod Calls
pub mod Numbers
pub mod Laws
