pub mod Bits
pub mod Idling
pub mod Endings
pub mod Drawing
pub mod Ending
