pub mod ReadLemmas
pub mod AdviceLemmas
pub mod RuleLemmas
pub mod BeginsLemmas
pub mod TruthLemmas
pub mod LawLemmas
pub mod DecideLemmas
