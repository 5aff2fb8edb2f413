pub mod Drives
pub mod Needs
pub mod Waits
