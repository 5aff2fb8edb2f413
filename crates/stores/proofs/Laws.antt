-- The laws of copying, of the stores' record, and of descriptors and what they describe.
pub mod Copies
pub mod Made
pub mod Descriptors
pub mod Described
