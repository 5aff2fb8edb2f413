-- The promise of this crate and its figures, each a statement type; proofs/Theorems has the proofs. Assumes
-- nothing.
pub mod RecoveryFigures
pub mod Recovery
