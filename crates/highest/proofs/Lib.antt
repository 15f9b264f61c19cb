pub mod Laws
pub mod NonZero
pub mod One
