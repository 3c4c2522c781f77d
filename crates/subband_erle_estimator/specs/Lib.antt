pub mod Channel
pub mod Subband
pub mod Resting
pub mod Accepted
pub mod Steps
