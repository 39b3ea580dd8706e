pub mod Lists
pub mod Rounding
pub mod Ceilings
pub mod Rotation
pub mod Floors
pub mod GoodBox
pub mod Lengths
pub mod Promise
