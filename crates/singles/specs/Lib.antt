pub mod Patterns
pub mod Rounding
pub mod Numbers
pub mod Comparisons
pub mod Operations
pub mod Constants
pub mod Singles
