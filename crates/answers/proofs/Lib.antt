pub mod Storing
pub mod Views
