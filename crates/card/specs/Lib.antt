pub mod Ranks
pub mod Words
pub mod Promises
