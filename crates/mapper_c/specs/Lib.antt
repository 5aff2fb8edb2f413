pub mod Geometries
pub mod Finds
pub mod LineFinds
pub mod LineEnters
pub mod Needs
pub mod Writes
pub mod LineWrites
pub mod Cuts
