pub mod SetBits
pub mod Showing
pub mod Doing
pub mod Becoming
pub mod Crossing
