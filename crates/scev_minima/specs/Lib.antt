pub mod Kinds
pub mod Quotients
pub mod Sequences
