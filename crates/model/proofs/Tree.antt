-- The hidden tree as a ghost, its invariant, and what one round does to it.
pub mod Keys
pub mod Ghost
pub mod Walks
pub mod Live
pub mod Invariant
pub mod FromInvariant
pub mod Nodes
pub mod Planted
pub mod Stored
pub mod Linking
pub mod Planting
pub mod Unused
pub mod Placing
pub mod Turns
pub mod Shown
pub mod Check
pub mod Agreed
