pub mod Frags
pub mod Starts
pub mod Search
pub mod StoreParts
