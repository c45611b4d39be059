pub mod WellFormed
pub mod Texts
pub mod ClosedLaws
pub mod ExamplesClosed
pub mod NumberedLaws
pub mod Spelt
