pub mod Checks
pub mod Lists
pub mod Numbers
pub mod Bits
pub mod Division
