pub mod Endings
pub mod Planned
