pub mod Elements
pub mod Trails
pub mod Dominance
pub mod OnceDefined
pub mod Limited
pub mod CountLemmas
mod OperandUses
mod RankLemmas
pub mod DefinitionLemmas
pub mod SizeLemmas
mod UseLemmas
mod RowLemmas
mod ReadLemmas
mod BackLemmas
