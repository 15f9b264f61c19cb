pub mod Highest
pub mod Promises
