pub mod Laws
pub mod Frames
pub mod One
