pub mod FullBand
pub mod Constants
pub mod Cases
pub mod Runs
pub mod Steps
pub mod Positive
