pub mod ItemsReading
pub mod ModuleReading
