pub mod Spelling
pub mod Pricing
