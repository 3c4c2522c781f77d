pub mod Blocks
pub mod Erl
pub mod First
pub mod Range
