pub mod Parts
pub mod Tails
pub mod Encodings
pub mod Runs
