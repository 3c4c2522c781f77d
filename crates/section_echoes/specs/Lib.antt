pub mod Constants
pub mod Echoes
pub mod Packed
pub mod Steps
pub mod Walk
