pub mod Fetch
pub mod Checks
pub mod Reading
pub mod Rows
pub mod Stepping
pub mod Newest
pub mod Adding
pub mod Merging
