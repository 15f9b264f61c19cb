pub mod Units
pub mod Handing
pub mod Promises
