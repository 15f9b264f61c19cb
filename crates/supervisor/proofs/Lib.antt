pub mod Laws
pub mod One
pub mod Silence
pub mod Default
