pub mod Stream
pub mod Given
pub mod Promises
pub mod Calls
pub mod Sent
pub mod Apart
pub mod Search
