pub mod Worked
pub mod More
