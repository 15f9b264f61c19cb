pub mod Room
pub mod Numbers
pub mod Reading
pub mod Plainly
pub mod One
