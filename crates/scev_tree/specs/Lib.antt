pub mod Tree
pub mod Value
pub mod Order
pub mod Canonical
pub mod Size
pub mod Invariant
