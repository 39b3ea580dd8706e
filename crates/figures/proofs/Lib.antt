pub mod Entries
pub mod Ways
pub mod Sweep
pub mod Outer
pub mod Passes
pub mod Alone
pub mod Across
pub mod Bounds
