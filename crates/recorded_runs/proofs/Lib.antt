pub mod Endings
pub mod Running
pub mod Leaving
pub mod Ending
pub mod Deploying
pub mod Planning
pub mod DeployPromises
pub mod Replays
pub mod Answering
pub mod ReplayEnding
pub mod Kept
pub mod ReplayPromises
mod Written
mod Reading
mod Playing
mod Agreeing
mod WorkloadEnding
mod WorkloadLeaving
mod WorkloadPromises
