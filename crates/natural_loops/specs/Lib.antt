pub mod Sides
pub mod Backward
pub mod Table
