pub mod Enters
pub mod Writes
