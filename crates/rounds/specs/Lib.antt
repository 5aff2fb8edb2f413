pub mod Rounds
pub mod Runs
