pub mod Prefixes
pub mod Numbers
pub mod Blocks
pub mod Laws
