pub mod Becoming
pub mod Indices
pub mod Made
