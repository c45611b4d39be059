pub mod Lists
pub mod Stable
pub mod Outcomes
pub mod Fields
pub mod Steps
pub mod Fronts
pub mod Refused
pub mod Causes
