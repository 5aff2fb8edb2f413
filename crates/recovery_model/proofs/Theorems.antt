-- The promise and its figures, proved. Assumes nothing.
pub mod RecoveryFigures
pub mod Recovery
