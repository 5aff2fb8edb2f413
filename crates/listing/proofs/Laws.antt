-- The laws of a line's write, of the steps of a listing, and of the listing of a whole input.
pub mod Writes
pub mod Steps
pub mod Pieces
pub mod Inputs
