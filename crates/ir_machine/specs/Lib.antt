pub mod Phases
pub mod Stands
pub mod Narrow
pub mod Runnable
pub mod Effects
pub mod Taken
pub mod Zeros
