pub mod Counting
pub mod Shown
pub mod Kinds
pub mod Parts
