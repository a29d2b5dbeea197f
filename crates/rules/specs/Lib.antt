pub mod Lengths
pub mod Operators
pub mod Scopes
pub mod Typing
pub mod Laying
pub mod Evaluation
pub mod Accepted
pub mod Ends
