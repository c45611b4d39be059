pub mod Turns
pub mod Processes
pub mod Patterns
pub mod Around
