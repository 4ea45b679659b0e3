pub mod FreeRuns
pub mod Spread
pub mod Overlay
pub mod Settling
pub mod Places
pub mod HeldParts
