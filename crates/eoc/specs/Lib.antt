pub mod Message
pub mod Reading
pub mod Refusals
pub mod Addresses
pub mod Channel
