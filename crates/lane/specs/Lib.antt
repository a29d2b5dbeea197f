pub mod Narrow
pub mod Lane
pub mod NarrowTree
pub mod Values
pub mod Demand
