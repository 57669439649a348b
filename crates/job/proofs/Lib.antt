pub mod Counts
pub mod Lists
pub mod Readings
pub mod Members
