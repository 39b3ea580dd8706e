pub mod Puts
pub mod Frees
