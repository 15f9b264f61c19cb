pub mod Names
pub mod Contents
pub mod Line
pub mod Promises
pub mod Totals
