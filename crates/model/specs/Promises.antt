-- The promises, each a statement type; proofs/Theorems has the proofs. Assumes nothing.
pub mod Figures
pub mod Limits
pub mod Refusals
pub mod Noninterference
pub mod ReadAfterWrite
pub mod BufferBounds
pub mod Questions
pub mod TreeFigures
pub mod RoundFigures
pub mod LargerFigures
pub mod OrderFigures
pub mod TreeCheck
pub mod LineFigures
pub mod LineOfOffers
pub mod WaitFigures
pub mod Waiting
