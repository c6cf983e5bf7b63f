pub mod Kinds
pub mod Callees
pub mod Defined
pub mod Shapes
pub mod Sites
pub mod Walks
pub mod Places
pub mod WellMade
