pub mod Crossing
pub mod Stops
