pub mod Fronts
mod Marks
pub mod Steps
