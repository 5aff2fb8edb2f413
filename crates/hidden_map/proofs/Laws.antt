pub mod Branches
pub mod Steps
pub mod Answers
pub mod Trees
pub mod Levels
pub mod Nodes
pub mod Walks
