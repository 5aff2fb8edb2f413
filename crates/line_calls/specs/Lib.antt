pub mod Enters
pub mod Finds
