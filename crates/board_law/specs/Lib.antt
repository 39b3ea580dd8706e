pub mod Places
pub mod Edits
pub mod Counts
pub mod Runs
pub mod History
pub mod Orders
