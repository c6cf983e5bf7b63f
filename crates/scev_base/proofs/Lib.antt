pub mod Congruence
pub mod ReadingLemmas
pub mod NestLemmas
pub mod BitLemmas
