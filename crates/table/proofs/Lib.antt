pub mod Lookups
pub mod Makes
pub mod Commits
