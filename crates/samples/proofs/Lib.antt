pub mod Linear
pub mod Rounding
pub mod Exact
pub mod One
pub mod Order
