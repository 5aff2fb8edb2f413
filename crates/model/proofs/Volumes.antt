-- What the calls keep of a drive's two volumes, and what its reads show.
pub mod Public
pub mod Bitmap
pub mod Reads
pub mod Fresh
pub mod Progress
pub mod Growth
pub mod Hidden
pub mod Writes
pub mod Placed
pub mod Kept
pub mod Lists
pub mod Shown
pub mod Calls
pub mod Damage
pub mod LineReads
