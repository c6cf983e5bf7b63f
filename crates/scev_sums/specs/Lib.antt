pub mod Errors
pub mod Answers
pub mod Values
pub mod Levels
