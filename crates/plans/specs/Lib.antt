pub mod States
pub mod HiddenPlans
pub mod PublicPlans
pub mod Plans
