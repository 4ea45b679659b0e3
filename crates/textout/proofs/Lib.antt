pub mod FrontLemmas
pub mod HexSteps
pub mod NumberLemmas
