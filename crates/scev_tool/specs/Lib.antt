pub mod Status
pub mod Message
pub mod Print
pub mod Report
pub mod Mode
pub mod Answer
