pub mod Clause
