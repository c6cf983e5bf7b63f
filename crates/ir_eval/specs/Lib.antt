pub mod Globals
pub mod Parts
pub mod Arguments
pub mod Begun
pub mod Outcome
