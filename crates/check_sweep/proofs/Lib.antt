pub mod Spots
pub mod Ageing
pub mod Settling
pub mod Places
