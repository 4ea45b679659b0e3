pub mod SplitLemmas
pub mod WordLemmas
