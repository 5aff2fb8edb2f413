-- The laws that the functions' proofs cite.
pub mod Spans
pub mod Entries
pub mod Ways
pub mod Nodes
pub mod Trees
