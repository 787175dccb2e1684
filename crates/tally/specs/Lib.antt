pub mod Aerial
pub mod Pieces
pub mod Laws
