-- The laws that the proofs of the functions cite, a file for each idea.
pub mod Places
pub mod Described
pub mod Paths
pub mod Addresses
