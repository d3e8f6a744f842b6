pub mod Room
pub mod Spares
pub mod Seal
pub mod Changes
