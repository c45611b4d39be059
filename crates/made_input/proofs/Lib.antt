mod Computed
pub mod Lengths
