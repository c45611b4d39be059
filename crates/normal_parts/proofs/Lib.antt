pub mod BindsNone
pub mod Binding
pub mod Forms
pub mod Flat
pub mod PatternForms
pub mod Levels
pub mod FromParts
pub mod Calls
