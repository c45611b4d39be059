pub mod Offers
pub mod Binds
