pub mod Places
pub mod Fields
pub mod Streams
