pub mod CaptureLemmas
pub mod FedLemmas
pub mod OnlyLemmas
pub mod PlaceLemmas
pub mod RecordLemmas
pub mod RunLemmas
pub mod WrittenLemmas
