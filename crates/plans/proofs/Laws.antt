pub mod PublicPlans
pub mod Plans
