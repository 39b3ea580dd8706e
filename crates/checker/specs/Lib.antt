pub mod Check
pub mod Marking
