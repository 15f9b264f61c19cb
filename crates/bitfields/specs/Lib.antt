pub mod Promises
pub mod Fields
