pub mod Promises
pub mod Judging
