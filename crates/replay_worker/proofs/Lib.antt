pub mod Hands
mod Rounds
mod Crossing
