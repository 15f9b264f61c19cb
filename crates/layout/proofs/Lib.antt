pub mod Places
pub mod Laws
pub mod Fields
pub mod Order
pub mod RoundTrip
pub mod OneBit
pub mod Check
pub mod Reserved
