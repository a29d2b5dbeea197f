pub mod KindNumbers
pub mod Operators
pub mod Instructions
pub mod Handed
