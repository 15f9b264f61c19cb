pub mod Laws
pub mod Promise
pub mod Each
pub mod One
pub mod Order
