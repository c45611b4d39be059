pub mod Values
pub mod Taken
pub mod Ready
