pub mod Firsts
pub mod Finishes
pub mod Finds
