pub mod Scopes
pub mod Naming
pub mod Widths
pub mod Normal
pub mod ClosedReading
pub mod Negated
pub mod Parts
pub mod Inside
pub mod Made
pub mod PatternMade
pub mod AroundMade
pub mod Fitting
pub mod Sorts
pub mod Sound
pub mod ClosedProductions
pub mod Spelling
pub mod Words
pub mod Contents
pub mod Tokens
pub mod ExamplesClosed
pub mod Sizes
pub mod Costs
pub mod NumberedProductions
pub mod Read
pub mod Bared
pub mod Counts
pub mod NumberedSources
mod Bridging
mod Lexing
mod Lanes
mod MadeReading
pub mod MadeSources
