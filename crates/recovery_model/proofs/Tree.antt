-- The hidden tree under a hidden half that is cut. Assumes nothing.
pub mod Topmost
pub mod Cut
