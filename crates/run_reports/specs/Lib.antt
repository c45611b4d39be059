pub mod Report
pub mod Halts
pub mod Stops
pub mod World
