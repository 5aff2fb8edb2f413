-- The laws that the proofs of the functions cite, a file for each idea.
pub mod Entries
pub mod Windows
pub mod Scans
pub mod Maps
pub mod Marks
pub mod Drives
