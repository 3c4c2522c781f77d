pub mod Bands
pub mod Begun
pub mod Constants
pub mod Range
pub mod Rest
