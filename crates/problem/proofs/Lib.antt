pub mod Sizes
pub mod Pinned
pub mod Several
