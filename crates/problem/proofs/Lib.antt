pub mod Asked
pub mod Bags
pub mod Joins
pub mod Naming
pub mod Places
pub mod Pruning
pub mod Walks
pub mod Weights
