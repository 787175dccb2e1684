pub mod Cases
pub mod All
pub mod Every
pub mod Counts
pub mod Answers
pub mod Texts
pub mod Filled
pub mod Proved
