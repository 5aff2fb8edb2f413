-- The laws that the proofs of the functions cite, a file for each idea.
pub mod Bounds
pub mod Stores
pub mod Waiting
pub mod Steps
pub mod Going
pub mod Loops
pub mod Cuts
