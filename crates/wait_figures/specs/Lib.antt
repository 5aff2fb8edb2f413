pub mod Drives
pub mod Tells
pub mod Offers
pub mod Carries
