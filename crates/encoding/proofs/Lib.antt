pub mod Past
pub mod Floats
pub mod Made
pub mod Digits
pub mod Reading
pub mod Writing
