pub mod Counts
pub mod Meaning
pub mod Works
pub mod Rule
pub mod Stops
