pub mod Writes
pub mod Sizes
pub mod Fits
