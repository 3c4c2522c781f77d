pub mod Channel
pub mod Range
pub mod Runs
pub mod SignalDependent
pub mod Steps
pub mod Settings
