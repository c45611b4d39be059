pub mod SetBits
pub mod Standing
pub mod Gathered
