pub mod Answers
pub mod Calls
pub mod Demands
pub mod Starred
pub mod Outside
pub mod Lanes
pub mod Each
pub mod Addresses
