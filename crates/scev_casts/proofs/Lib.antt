pub mod Cutting
pub mod AtomsCut
pub mod Extending
