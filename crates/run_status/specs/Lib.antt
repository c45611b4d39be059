pub mod Message
pub mod Endings
pub mod Statuses
