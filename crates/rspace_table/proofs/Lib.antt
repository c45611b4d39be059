pub mod Firsts
pub mod Shown
pub mod Changes
pub mod Searching
pub mod Telling
pub mod Spread
pub mod InHand
pub mod Crossing
