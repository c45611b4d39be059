pub mod Placing
pub mod Summing
