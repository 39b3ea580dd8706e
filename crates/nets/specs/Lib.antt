pub mod Spans
pub mod Tables
