pub mod Bases
pub mod Laws
pub mod Inputs
pub mod Runnable
pub mod Refused
pub mod Replaying
pub mod Given
pub mod Ended
