pub mod EventWords
pub mod EndWords
pub mod Names
pub mod Fits
pub mod One
