pub mod LayoutScan
pub mod LiteralReading
pub mod InitReading
pub mod TailReading
pub mod GlobalReading
pub mod LineReading
pub mod DroppedReading
pub mod DeclaredReading
