pub mod Choose
pub mod Factorial
pub mod Sums
pub mod Products
pub mod Congruence
