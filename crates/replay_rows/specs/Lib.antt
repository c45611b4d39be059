pub mod Filing
pub mod Bits
pub mod Rows
