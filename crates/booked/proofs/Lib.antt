pub mod Figures
pub mod Standing
pub mod Data
pub mod Times
pub mod Programmes
pub mod Real
pub mod Added
pub mod Proved
