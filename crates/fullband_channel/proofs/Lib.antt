pub mod Holds
pub mod Judged
pub mod Constants
pub mod Kept
pub mod Bounded
pub mod Qualities
pub mod Sums
