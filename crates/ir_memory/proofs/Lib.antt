pub mod ByteLemmas
pub mod SpellingLemmas
pub mod StoredLemmas
pub mod MemoryLemmas
