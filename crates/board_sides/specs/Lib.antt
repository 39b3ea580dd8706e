pub mod Limits
pub mod Places
