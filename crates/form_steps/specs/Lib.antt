pub mod Handing
pub mod Opening
pub mod Parts
pub mod Steps
