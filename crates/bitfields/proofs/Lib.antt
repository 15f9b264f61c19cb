pub mod One
pub mod Holding
