pub mod Written
pub mod Sorting
pub mod Apart
pub mod Adding
pub mod Nothing
pub mod Ordering
pub mod Channels
