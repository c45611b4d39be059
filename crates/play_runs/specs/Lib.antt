pub mod Rooms
pub mod Asking
