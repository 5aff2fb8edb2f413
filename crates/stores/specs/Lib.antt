pub mod Made
pub mod Changes
pub mod Descriptors
pub mod Described
