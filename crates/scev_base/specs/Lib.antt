pub mod Residue
pub mod Iterated
pub mod Counting
pub mod Nest
