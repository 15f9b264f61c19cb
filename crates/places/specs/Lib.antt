pub mod Places
pub mod Streams
