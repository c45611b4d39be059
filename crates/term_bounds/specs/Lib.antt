pub mod Bound
pub mod Filled
