pub mod Answer
pub mod Lists
pub mod Bytes
pub mod Text
pub mod Laws
