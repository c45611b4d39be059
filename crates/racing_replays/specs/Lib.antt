pub mod Replaying
pub mod Examples
pub mod Laws
pub mod Answering
pub mod Racing
pub mod RacingLaws
pub mod Counted
pub mod Possible
