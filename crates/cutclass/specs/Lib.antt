pub mod Refusal
pub mod InForce
