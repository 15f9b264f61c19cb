pub mod Laws
pub mod Reading
pub mod One
pub mod Fits
