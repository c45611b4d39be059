pub mod Outcomes
pub mod Keeping
pub mod Tagging
pub mod Heads
