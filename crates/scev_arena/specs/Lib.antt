pub mod Nodes
pub mod NodeLaws
pub mod Meaning
pub mod Standing
pub mod Limits
pub mod Measures
