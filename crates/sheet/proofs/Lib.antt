pub mod Counts
pub mod Digits
pub mod Entries
pub mod Fills
pub mod Framed
pub mod Judges
pub mod LaidOut
pub mod Lines
