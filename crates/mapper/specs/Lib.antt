pub mod Writes
pub mod Within
pub mod Cuts
