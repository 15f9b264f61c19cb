pub mod Samples
pub mod Shaper
