pub mod Binding
pub mod Filling
