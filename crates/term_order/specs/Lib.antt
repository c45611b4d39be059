pub mod Orders
pub mod Examples
pub mod NormalLaws
pub mod ExamplesNormal
