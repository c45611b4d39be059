pub mod Forms
pub mod Leaving
pub mod Meanings
mod Twos
mod Uses
