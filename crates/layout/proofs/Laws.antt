-- The laws that the proofs of the functions cite, a file for each idea.
pub mod Geometry
pub mod Slots
pub mod Bitmap
pub mod PublicMap
pub mod Refusals
pub mod Opened
