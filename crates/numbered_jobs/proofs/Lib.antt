mod Each
pub mod Sharing
