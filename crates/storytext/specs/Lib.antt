pub mod Events
pub mod Names
pub mod Attempts
pub mod Ending
pub mod Words
