pub mod Named
pub mod Begun
pub mod Layouts
