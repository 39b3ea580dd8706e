pub mod Counted
pub mod Wanting
pub mod Placing
