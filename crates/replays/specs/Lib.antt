pub mod View
pub mod Replays
pub mod ReplayLaws
pub mod ReplayExamples
pub mod Refusals
pub mod RunLaws
pub mod RunExamples
