pub mod Range
mod Judged
mod Steps
mod Updates
