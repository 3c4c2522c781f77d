pub mod Apply
pub mod Listing
pub mod Feed
pub mod Along
pub mod Range
