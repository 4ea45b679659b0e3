pub mod IndexLemmas
pub mod SeenLemmas
