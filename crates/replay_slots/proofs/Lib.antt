pub mod Firsts
pub mod Stepping
pub mod Placing
pub mod Arriving
pub mod Fullness
pub mod Within
