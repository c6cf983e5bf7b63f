pub mod Givens
