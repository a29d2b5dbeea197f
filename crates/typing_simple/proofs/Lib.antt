pub mod Words
pub mod Shapes
pub mod Outcomes
pub mod Listed
pub mod Walk
