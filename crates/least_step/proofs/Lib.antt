pub mod Taking
pub mod Ordering
pub mod Filing
pub mod Choosing
pub mod Meeting
pub mod Allowed
pub mod Steps
pub mod Past
