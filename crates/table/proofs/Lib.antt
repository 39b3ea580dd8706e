pub mod Bytes
pub mod Tallied
pub mod TwoLayer
pub mod Tests
pub mod Nodes
pub mod Nets
pub mod Found
pub mod Table
