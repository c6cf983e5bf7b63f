pub mod Values
pub mod Invariant
pub mod Only
pub mod Formed
pub mod Casts
pub mod Choices
