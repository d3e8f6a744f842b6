pub mod Backs
pub mod Alls
pub mod Applies
