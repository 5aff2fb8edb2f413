-- The laws of this crate's definitions, a file for each idea. Assumes nothing.
pub mod Cuts
pub mod CutHalves
pub mod CutRounds
pub mod CutEffects
pub mod RootedRounds
pub mod Used
pub mod MapTests
pub mod Marks
pub mod SameButBits
pub mod MapRefusal
pub mod Recovery
pub mod Steps
pub mod StepDisks
