pub mod Extensions
pub mod Steps
