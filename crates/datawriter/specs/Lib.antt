pub mod Promises
pub mod Laying
