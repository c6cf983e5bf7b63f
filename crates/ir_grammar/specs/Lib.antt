pub mod Operations
pub mod Functions
pub mod Layout
pub mod Items
pub mod Numbering
pub mod Spelled
pub mod Printing
