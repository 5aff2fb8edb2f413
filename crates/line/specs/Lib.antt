pub mod Offers
pub mod Numbers
pub mod Turns
pub mod Waiting
pub mod Gathered
