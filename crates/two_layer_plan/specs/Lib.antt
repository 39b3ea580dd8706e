pub mod Plan
pub mod States
