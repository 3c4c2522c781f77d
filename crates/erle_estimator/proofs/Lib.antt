pub mod Judged
pub mod Updates
pub mod Sections
pub mod Good
pub mod Range
pub mod Runs
