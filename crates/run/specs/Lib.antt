pub mod Worlds
pub mod Starting
pub mod Delivering
pub mod Ending
pub mod History
pub mod Whole
pub mod Promises
pub mod Beginning
