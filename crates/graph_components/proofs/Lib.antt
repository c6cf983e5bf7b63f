pub mod WalkLemmas
pub mod ComponentLemmas
pub mod RootedLemmas
