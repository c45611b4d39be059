pub mod Given
pub mod Search
pub mod Found
