pub mod Forms
pub mod Operated
pub mod Parts
pub mod OwnValues
