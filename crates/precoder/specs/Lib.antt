pub mod Precoder
pub mod Directions
pub mod Runs
