pub mod Box
pub mod Hardest
