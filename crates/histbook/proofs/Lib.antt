pub mod AdviceLemmas
pub mod RunsLemmas
pub mod TextLemmas
pub mod BudgetLemmas
pub mod MovesLemmas
pub mod InTurnLemmas
