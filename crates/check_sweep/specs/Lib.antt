pub mod Reached
pub mod Pins
