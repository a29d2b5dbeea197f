pub mod Slices
pub mod Judging
pub mod Listing
pub mod Waiting
pub mod Ready
pub mod Running
pub mod Images
