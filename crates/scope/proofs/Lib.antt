pub mod ExamplesScope
pub mod Normalizing
