pub mod Ranges
pub mod Tables
