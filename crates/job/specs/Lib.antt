pub mod Lists
pub mod Refusals
pub mod Plans
pub mod Sets
