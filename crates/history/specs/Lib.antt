pub mod Run
pub mod Prepared
pub mod Clock
pub mod Update
pub mod Laws
