-- Both volumes under a write that is cut, and recovered. Assumes nothing.
pub mod CutLeaves
pub mod Cuts
pub mod CutRuns
pub mod Leaves
pub mod Recoverable
pub mod Recovers
pub mod LineCuts
