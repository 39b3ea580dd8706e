pub mod Packing
pub mod Listing
pub mod Trunks
