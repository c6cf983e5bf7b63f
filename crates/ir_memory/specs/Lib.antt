pub mod Spelling
pub mod Memory
pub mod Offset
