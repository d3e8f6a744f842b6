pub mod Forwarding
pub mod Rows
