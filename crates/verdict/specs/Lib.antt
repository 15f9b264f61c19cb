pub mod Ranks
pub mod Verdict
pub mod Promises
