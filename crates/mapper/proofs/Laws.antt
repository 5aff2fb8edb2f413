-- The laws that the proofs of the functions cite, a file for each idea.
pub mod Offers
pub mod Outcomes
pub mod Writes
pub mod LineWrites
pub mod Uncut
