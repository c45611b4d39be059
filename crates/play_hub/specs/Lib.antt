pub mod Values
pub mod Endings
pub mod Drawing
