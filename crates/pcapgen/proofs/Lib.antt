pub mod Lengths
pub mod Payload
pub mod Steps
pub mod WritingLemmas
