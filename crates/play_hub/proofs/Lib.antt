pub mod Bits
pub mod Ending
pub mod Drawing
pub mod Crossing
