pub mod Handed
mod Keys
mod Opened
pub mod Turning
