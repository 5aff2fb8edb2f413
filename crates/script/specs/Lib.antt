pub mod Texts
pub mod Lines
pub mod Reports
pub mod Feeding
pub mod Samples
