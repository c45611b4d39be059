pub mod Headers
mod Lawful
pub mod Clashing
