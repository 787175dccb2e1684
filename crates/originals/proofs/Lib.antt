pub mod Read
pub mod Proved
