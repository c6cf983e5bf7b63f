pub mod Gone
pub mod PhiEntries
pub mod PhiRoom
pub mod AcceptedParts
pub mod Alike
pub mod MachineSteps
pub mod RunSteps
