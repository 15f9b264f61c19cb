pub mod Line
pub mod Run
pub mod Promises
pub mod Window
