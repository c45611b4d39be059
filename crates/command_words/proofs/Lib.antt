pub mod Answering
pub mod Examples
pub mod Matching
pub mod PlainWords
pub mod ReadingNumbers
