pub mod Runs
pub mod Examples
pub mod More
