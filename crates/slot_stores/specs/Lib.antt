pub mod Sources
pub mod Slots
