pub mod Names
pub mod Unfolding
pub mod Replay
pub mod Making
