pub mod Flags
pub mod Bits
pub mod Laws
