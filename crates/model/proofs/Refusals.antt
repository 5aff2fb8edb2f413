-- Why each refusal's chain of checks answers its conditions, and what a chain cannot answer.
pub mod Answers
pub mod Drive
pub mod Places
pub mod Circle
pub mod Rounds
pub mod Hidden
pub mod Offers
pub mod Lines
pub mod Calls
pub mod Writes
pub mod Mapped
pub mod Bounds
pub mod Tree
