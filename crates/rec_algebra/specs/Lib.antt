pub mod Plans
pub mod Forming
pub mod Semiring
pub mod Values
pub mod ResidueRing
