pub mod Hands
pub mod Takes
pub mod Leaves
mod Gathering
mod Closing
mod Rooms
mod Numbers
mod Turns
mod Stops
