pub mod Standing
pub mod Grouping
pub mod Filing
pub mod Changing
pub mod Totals
pub mod Showing
