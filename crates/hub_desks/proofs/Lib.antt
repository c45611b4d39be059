pub mod Staying
pub mod Leaves
