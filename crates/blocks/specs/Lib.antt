pub mod Masks
pub mod Chunks
