pub mod Bytes
pub mod Examples
pub mod Fronts
pub mod Quoted
pub mod Reading
pub mod Spelling
pub mod Tables
pub mod Token
