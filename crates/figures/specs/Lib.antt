pub mod Drives
pub mod Layouts
pub mod Asks
pub mod Trees
pub mod Writes
