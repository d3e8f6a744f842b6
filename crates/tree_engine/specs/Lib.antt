pub mod Kept
pub mod Engines
