pub mod Chains
pub mod Reading
