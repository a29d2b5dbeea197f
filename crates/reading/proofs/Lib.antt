-- What the proofs of several functions use, and what the reader's answers settle.
pub mod Laws
pub mod LawsValue
pub mod LawsText
pub mod Branches
pub mod Settled
pub mod Sizes
mod Examples
