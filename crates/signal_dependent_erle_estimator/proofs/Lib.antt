pub mod Judged
pub mod After
pub mod Updates
pub mod Channels
pub mod Runs
