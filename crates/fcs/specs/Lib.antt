pub mod Sequence
pub mod Promises
