pub mod Waiting
pub mod Contract
