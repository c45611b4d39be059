pub mod Rows
pub mod Bundles
pub mod Offering
pub mod Sorting
pub mod Operands
pub mod Kept
pub mod Twins
pub mod Charging
