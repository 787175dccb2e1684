pub mod Rule
pub mod Look
