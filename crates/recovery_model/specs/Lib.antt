pub mod Cuts
pub mod Recovery
pub mod MapConditions
pub mod Promises
