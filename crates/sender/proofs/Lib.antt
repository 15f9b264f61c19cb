pub mod Laws
pub mod Promise
pub mod Together
pub mod Checks
pub mod Sent
pub mod Back
pub mod One
