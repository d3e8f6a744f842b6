pub mod Mirrors
pub mod Nexts
