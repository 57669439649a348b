pub mod Hex
pub mod Cursors
pub mod Lines
