pub mod Listing
pub mod Inspects
pub mod Genesis
