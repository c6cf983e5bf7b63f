pub mod OneCut
pub mod OneAdvance
pub mod OneExpression
pub mod MutualPhis
