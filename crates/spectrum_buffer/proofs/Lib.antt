mod Refusals
pub mod Walks
pub mod Cases
