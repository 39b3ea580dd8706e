pub mod Padding
pub mod Left
pub mod Seen
