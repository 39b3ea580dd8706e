pub mod Writing
pub mod Building
