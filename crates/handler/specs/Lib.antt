pub mod Seen
pub mod Values
pub mod Parts
pub mod Grammar
pub mod Reader
pub mod Truth
pub mod Laws
