pub mod Laws
pub mod Exactly
pub mod Block
pub mod Answers
pub mod One
