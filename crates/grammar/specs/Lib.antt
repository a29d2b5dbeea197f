pub mod Grammar
pub mod Accepted
