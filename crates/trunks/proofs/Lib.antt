pub mod Searches
pub mod Ends
pub mod Listings
pub mod Gallai
pub mod Promise
