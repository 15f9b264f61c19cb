pub mod Levels
pub mod Encoder
