pub mod Taking
pub mod Receiving
