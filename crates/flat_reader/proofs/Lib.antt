pub mod Sides
pub mod Passed
