pub mod ChooseLemmas
pub mod CountLemmas
pub mod LinearLemmas
pub mod FactorialLemmas
pub mod SumLemmas
