pub mod View
pub mod Reported
pub mod Laws
