pub mod Becoming
pub mod Renumbered
