pub mod OrderLemmas
pub mod KeyLemmas
pub mod HashLemmas
