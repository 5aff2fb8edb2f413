pub mod Lent
pub mod Walks
