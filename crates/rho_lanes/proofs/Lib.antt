pub mod Lanes
pub mod Ends
pub mod ClassLanes
pub mod Runs
