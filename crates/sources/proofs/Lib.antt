pub mod Answering
pub mod Closing
pub mod Fronts
