pub mod Advice
pub mod Charges
pub mod RingEnds
