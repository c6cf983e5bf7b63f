pub mod View
pub mod Dependence
pub mod Steps
pub mod Advance
pub mod Exprs
pub mod WellMade
