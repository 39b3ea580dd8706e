pub mod FlatBytes
pub mod Conversion
