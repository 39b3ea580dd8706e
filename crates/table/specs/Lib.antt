pub mod Tickets
pub mod Table
pub mod Decide
