pub mod CircleLemmas
pub mod EmptyLemmas
pub mod FreedLemmas
pub mod MeantLemmas
pub mod StandLemmas
pub mod StepLemmas
pub mod TellingLemmas
pub mod TurnLemmas
