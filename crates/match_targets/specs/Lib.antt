pub mod Targets
pub mod Found
