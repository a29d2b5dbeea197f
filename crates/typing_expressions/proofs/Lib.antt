pub mod Tags
pub mod Names
pub mod Tables
pub mod Slots
pub mod Walk
pub mod Steps
