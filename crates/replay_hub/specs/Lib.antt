pub mod Values
pub mod Drawing
pub mod Ends
