pub mod Format
pub mod Stages
pub mod Steps
