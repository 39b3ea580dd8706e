pub mod Survey
pub mod Line
