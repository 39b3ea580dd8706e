pub mod InPlace
pub mod Shifts
pub mod Recounts
