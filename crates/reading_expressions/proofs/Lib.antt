-- What the proofs of several functions use.
pub mod Answers
pub mod Climbing
pub mod Laws
