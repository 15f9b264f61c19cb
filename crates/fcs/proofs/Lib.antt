pub mod Laws
pub mod Good
pub mod One
