pub mod Places
pub mod Frame
pub mod Refusals
