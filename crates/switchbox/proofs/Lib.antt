pub mod Layers
pub mod Rounds
pub mod Drawing
pub mod Assigned
pub mod Counts
pub mod Ticket
