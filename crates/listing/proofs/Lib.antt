pub mod Laws
pub mod Wording
pub mod Fits
pub mod WordsFit
pub mod One
pub mod Example
