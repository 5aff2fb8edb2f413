pub mod Ends
pub mod Trees
pub mod Nodes
pub mod Walks
