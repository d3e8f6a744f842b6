pub mod Members
pub mod Search
pub mod Conflicts
pub mod Boundaries
pub mod Places
pub mod Orders
