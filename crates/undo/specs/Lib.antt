pub mod Answers
pub mod Fates
pub mod Undone
