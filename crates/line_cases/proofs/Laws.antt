pub mod Offers
pub mod Cases
pub mod Lents
