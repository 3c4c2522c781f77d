pub mod Answers
pub mod Lister
