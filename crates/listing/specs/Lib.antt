pub mod Listing
pub mod Pieces
pub mod Laws
