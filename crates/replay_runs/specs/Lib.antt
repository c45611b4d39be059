pub mod Endings
pub mod Racing
pub mod Basis
