pub mod Putting
pub mod Scans
