pub mod Totals
pub mod Promises
