pub mod Steps
pub mod Growing
