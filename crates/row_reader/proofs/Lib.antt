pub mod Joins
pub mod SentRows
pub mod JoinRows
pub mod Found
