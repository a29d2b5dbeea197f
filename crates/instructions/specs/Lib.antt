pub mod Instructions
pub mod Lower
pub mod Standing
pub mod Plan
