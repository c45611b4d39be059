pub mod Files
pub mod Reading
pub mod Refused
pub mod Fronts
pub mod Laws
