pub mod Seen
pub mod OnTheLine
