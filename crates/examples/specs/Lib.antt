pub mod Calls
pub mod Table
pub mod Data
pub mod Eoc
