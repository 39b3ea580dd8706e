pub mod Sizes
pub mod FlatReadBack
pub mod FlatBytesBack
pub mod Promise
