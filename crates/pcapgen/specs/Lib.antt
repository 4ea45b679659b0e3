pub mod Draws
pub mod Flows
pub mod Frame
pub mod Kept
pub mod Made
pub mod Writing
