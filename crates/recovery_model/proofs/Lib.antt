pub mod Laws
pub mod Refusals
pub mod Tree
pub mod Volumes
pub mod Views
pub mod Theorems
