pub mod Plans
pub mod Layers
pub mod Runs
pub mod Drawings
