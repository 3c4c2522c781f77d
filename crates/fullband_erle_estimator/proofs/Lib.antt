pub mod Judged
pub mod Updates
pub mod Constants
pub mod Cases
pub mod Runs
pub mod Figures
