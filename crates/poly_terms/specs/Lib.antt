pub mod Monomials
pub mod Terms
pub mod Weights
