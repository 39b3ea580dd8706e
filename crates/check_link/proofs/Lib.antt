pub mod Zeros
pub mod Sweeping
pub mod Offsets
