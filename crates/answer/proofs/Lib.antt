pub mod Cursors
pub mod Telling
