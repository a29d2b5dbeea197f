pub mod Buffers
pub mod Judging
