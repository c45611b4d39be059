pub mod Loops
pub mod Groups
pub mod SetBits
pub mod Waits
pub mod Looking
