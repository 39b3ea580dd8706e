pub mod Solid
pub mod Channels
pub mod Cuts
pub mod Moves
