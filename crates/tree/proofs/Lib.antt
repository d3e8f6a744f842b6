pub mod Shape
pub mod Held
pub mod Arms
pub mod Heights
pub mod Sides
pub mod Cuts
