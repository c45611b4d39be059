pub mod Channels
pub mod Lengths
mod Writing
