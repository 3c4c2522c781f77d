pub mod Room
pub mod Runs
