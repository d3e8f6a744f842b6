pub mod Edits
pub mod Beside
