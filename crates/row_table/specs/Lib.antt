pub mod Ids
pub mod Groups
pub mod Tables
pub mod Shown
