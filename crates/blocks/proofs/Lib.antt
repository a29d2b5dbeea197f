pub mod ByKind
pub mod Chunks
pub mod Bytes
pub mod Masks
pub mod Stores
pub mod Fours
