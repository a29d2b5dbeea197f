pub mod Table
pub mod Errors
pub mod Calls
pub mod Requests
