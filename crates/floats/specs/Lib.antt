pub mod Comparisons
pub mod Worked
