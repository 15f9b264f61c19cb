pub mod Examples
pub mod Data
pub mod Eoc
