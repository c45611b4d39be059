pub mod Keyed
pub mod Made
