pub mod Table
pub mod Forms
pub mod Frame
pub mod Refusals
pub mod Places
pub mod Rooms
