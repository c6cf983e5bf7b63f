pub mod Firsts
pub mod Growing
pub mod Keys
pub mod Kinds
pub mod Meant
pub mod Parts
pub mod Renumbered
pub mod Whole
