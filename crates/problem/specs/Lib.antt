pub mod Bags
pub mod Costs
pub mod Prices
pub mod Pruning
pub mod Weights
