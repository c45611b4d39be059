pub mod Bases
pub mod Answers
pub mod Laws
