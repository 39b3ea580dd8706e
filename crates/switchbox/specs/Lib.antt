pub mod Box
pub mod Layers
pub mod Wired
