pub mod Rounding
pub mod Fractions
pub mod Patterns
pub mod Arithmetic
pub mod Comparisons
pub mod Worked
pub mod Made
