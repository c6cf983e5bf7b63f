pub mod Names
pub mod Tally
pub mod Places
pub mod Definitions
pub mod Recurrence
pub mod Truth
