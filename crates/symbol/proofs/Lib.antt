pub mod Numbers
pub mod Levels
pub mod Sent
pub mod Runs
pub mod Joined
pub mod One
pub mod Order
