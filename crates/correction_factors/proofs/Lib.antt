pub mod Constants
pub mod Corrected
mod Bands
mod Entries
mod Update
pub mod Taught
pub mod Range
pub mod StreamsKept
