pub mod Tabling
pub mod Passing
pub mod Totals
pub mod Reach
