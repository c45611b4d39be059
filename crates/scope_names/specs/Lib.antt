pub mod Places
pub mod Bound
pub mod Senses
