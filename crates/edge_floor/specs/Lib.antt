pub mod Needs
pub mod Floors
