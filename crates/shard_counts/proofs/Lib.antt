pub mod Setting
pub mod Counting
