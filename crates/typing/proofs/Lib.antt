pub mod Shapes
pub mod Walk
pub mod Sequence
pub mod Coincide
