pub mod Laws
pub mod Refusals
pub mod Views
pub mod Tree
pub mod Volumes
pub mod Waiting
pub mod Theorems
