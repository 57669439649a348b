pub mod Forwarding
pub mod Filling
