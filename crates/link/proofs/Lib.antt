pub mod Bags
pub mod Fitting
mod HeadSets
pub mod Parts
pub mod Posting
mod Rows
