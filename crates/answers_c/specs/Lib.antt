pub mod Drives
pub mod Finds
pub mod Needs
pub mod Waits
pub mod Enters
pub mod Writes
pub mod LineWrites
pub mod Cuts
