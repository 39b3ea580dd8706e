pub mod Marks
pub mod Edges
