pub mod Silent
pub mod Arguments
pub mod Calls
pub mod Lines
pub mod Functions
pub mod ArgumentViews
pub mod Views
