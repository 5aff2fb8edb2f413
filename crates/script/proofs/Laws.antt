-- The laws of digits, lines of input, texts, lines of output and input as a whole, and computed samples.
pub mod Digits
pub mod Lines
pub mod Texts
pub mod Decimals
pub mod Reports
pub mod ReportLines
pub mod Feeding
pub mod Inputs
pub mod Samples
