pub mod Same
pub mod Sames
pub mod Tallies
pub mod Places
pub mod Putting
pub mod Computed
