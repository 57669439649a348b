pub mod Completing
pub mod Parsing
