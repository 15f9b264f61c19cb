pub mod Multiples
pub mod Between
pub mod Weight
pub mod Order
pub mod Seen
pub mod Detected
pub mod Frames
