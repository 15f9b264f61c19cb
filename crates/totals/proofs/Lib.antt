pub mod Counting
pub mod Fits
pub mod One
