pub mod LastLemmas
pub mod PartsLemmas
pub mod PositionsLemmas
