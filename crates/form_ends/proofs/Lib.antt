pub mod Carried
pub mod Chains
pub mod Choices
pub mod Cycle
pub mod Forms
pub mod Kept
pub mod Lengths
pub mod Lists
pub mod Pairs
pub mod Processes
mod Remains
