pub mod Answers
pub mod Arguments
pub mod Clap
pub mod Commands
pub mod Faults
pub mod Plain
