pub mod Listed
pub mod Tells
pub mod Cuts
pub mod LineCuts
pub mod Maps
