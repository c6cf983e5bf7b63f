pub mod AlgebraLemmas
pub mod FormingLemmas
pub mod PlanLemmas
pub mod LoopLemmas
pub mod ResidueLemmas
pub mod CarryLemmas
pub mod SumLemmas
pub mod CarriedPlans
