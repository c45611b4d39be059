pub mod Rigs
pub mod Uses
pub mod Kept
pub mod Shards
pub mod Fits
pub mod Examples
