pub mod Bits
pub mod Signed
pub mod Promises
