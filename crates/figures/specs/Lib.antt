pub mod Crossings
pub mod Figures
