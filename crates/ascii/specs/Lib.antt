pub mod Text
pub mod Promises
pub mod Plain
