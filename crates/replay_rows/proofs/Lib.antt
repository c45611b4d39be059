pub mod Filing
pub mod Under
pub mod Settled
pub mod Counting
pub mod Settling
pub mod Shifting
