pub mod Constants
pub mod Factors
pub mod Range
pub mod Steps
pub mod Streams
