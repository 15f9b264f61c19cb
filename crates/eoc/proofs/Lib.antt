pub mod Escapes
pub mod RoundTrip
pub mod Forms
pub mod Channel
pub mod Order
