pub mod Alike
pub mod Keeping
pub mod Leaving
pub mod Readying
pub mod Holding
pub mod Repeating
pub mod Ending
