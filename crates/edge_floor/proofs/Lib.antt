pub mod Held
pub mod Needs
pub mod Promise
