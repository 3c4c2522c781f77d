pub mod Piped
pub mod Behind
