pub mod Narrow
pub mod Refusals
pub mod Turns
pub mod Judging
