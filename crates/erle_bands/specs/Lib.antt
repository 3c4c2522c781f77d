pub mod Band
pub mod Constants
pub mod Steps
