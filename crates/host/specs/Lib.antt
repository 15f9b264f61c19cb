pub mod Frames
pub mod Data
pub mod Channel
pub mod Scrambling
pub mod Sending
pub mod Receiving
pub mod Symbols
pub mod Supervising
