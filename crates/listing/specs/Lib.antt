pub mod Writes
pub mod Listings
