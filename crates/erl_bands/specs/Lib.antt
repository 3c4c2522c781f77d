pub mod Figure
pub mod Constants
pub mod Steps
