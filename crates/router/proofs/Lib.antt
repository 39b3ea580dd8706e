pub mod Few
pub mod Laws
pub mod Tables
pub mod TwoLayer
pub mod Promise
