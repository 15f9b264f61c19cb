pub mod Laws
pub mod Flat
pub mod Promise
pub mod One
