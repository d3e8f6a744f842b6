pub mod Tree
pub mod Nodes
pub mod Arms
