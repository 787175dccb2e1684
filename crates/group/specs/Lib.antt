pub mod Group
pub mod Laws
