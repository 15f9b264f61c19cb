pub mod Events
pub mod Ended
pub mod Whole
