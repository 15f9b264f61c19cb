pub mod Products
pub mod Columns
pub mod Recipe
pub mod Signals
pub mod Turns
pub mod Back
pub mod One
pub mod Order
