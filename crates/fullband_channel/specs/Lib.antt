pub mod Instantaneous
pub mod Channel
pub mod Constants
pub mod Positive
