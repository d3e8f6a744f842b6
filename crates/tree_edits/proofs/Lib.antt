pub mod Grows
pub mod Prunes
pub mod Amends
pub mod Leasts
pub mod Sides
