pub mod Binding
pub mod Rules
pub mod NormalForm
pub mod ExamplesScope
pub mod ScopeLaws
