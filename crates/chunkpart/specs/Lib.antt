pub mod Parts
pub mod ChunkParts
pub mod Positions
pub mod LastBytes
