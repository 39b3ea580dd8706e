pub mod Moving
pub mod Promise
