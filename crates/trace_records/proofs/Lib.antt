pub mod Framing
pub mod Parts
pub mod Blocks
pub mod Judged
