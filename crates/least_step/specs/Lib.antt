pub mod Orders
pub mod Filed
pub mod Choosing
pub mod Meeting
pub mod Least
pub mod Laws
