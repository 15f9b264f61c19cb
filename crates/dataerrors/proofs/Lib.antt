pub mod Turned
pub mod Six
pub mod OneBit
pub mod Several
