mod Sizes
pub mod Limits
mod Loops
pub mod Claims
