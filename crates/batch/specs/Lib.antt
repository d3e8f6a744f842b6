pub mod Changes
pub mod Staging
pub mod Applied
