pub mod Fits
pub mod Cells
pub mod Sums
