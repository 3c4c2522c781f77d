pub mod Underway
pub mod Whole
pub mod Lines
