pub mod Offers
pub mod Inner
pub mod Progress
pub mod Results
pub mod Works
