pub mod Laws
pub mod Walk
