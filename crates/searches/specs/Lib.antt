pub mod Members
pub mod Cubes
pub mod Bests
pub mod Chains
pub mod Steps
pub mod Moves
pub mod Invariant
pub mod Promises
