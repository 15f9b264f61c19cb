pub mod Laws
pub mod Ranks
pub mod Turned
pub mod One
