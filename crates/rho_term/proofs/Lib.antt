pub mod Turns
pub mod Measuring
pub mod Forms
pub mod Trees
pub mod Copying
