pub mod BoardKinds
pub mod Calls
pub mod StoredCounts
