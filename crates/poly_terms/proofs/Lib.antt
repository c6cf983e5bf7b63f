pub mod MonomialLemmas
pub mod OrderLemmas
pub mod WeightLemmas
pub mod MergeLemmas
pub mod ProductLemmas
pub mod CoefficientLemmas
pub mod ResultLemmas
pub mod CommuteLemmas
