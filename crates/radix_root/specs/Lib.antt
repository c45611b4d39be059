pub mod Leaves
pub mod Nodes
pub mod Holding
pub mod Groups
