pub mod Promise
pub mod Answers
pub mod Starred
pub mod Outside
pub mod Lanes
pub mod Each
pub mod Addresses
