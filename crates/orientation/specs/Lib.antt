pub mod Lookup
pub mod Code
