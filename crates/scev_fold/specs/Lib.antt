pub mod Hindered
pub mod Binomials
pub mod Turns
