pub mod Pairs
pub mod Walking
pub mod Gathering
pub mod Finding
