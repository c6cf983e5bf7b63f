pub mod RunDepth
pub mod CallPlace
pub mod EndsIn
pub mod CallFound
pub mod ListedTexts
pub mod TargetFound
pub mod NamedParts
