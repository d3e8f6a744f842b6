pub mod Writes
pub mod Lines
