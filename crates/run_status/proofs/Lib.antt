pub mod Handing
pub mod Listing
