pub mod KindLemmas
pub mod BodyLaws
pub mod PayloadLaws
pub mod ShortLaws
