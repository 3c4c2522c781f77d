pub mod Erle
pub mod Parts
pub mod Range
pub mod Runs
pub mod Sections
pub mod Steps
