pub mod Division
pub mod Register
pub mod Errors
pub mod Promises
