-- How long a hidden write waits (document 02, K12).
pub mod Live
pub mod Rounds
pub mod Runs
pub mod Writes
pub mod Lines
pub mod Calls
