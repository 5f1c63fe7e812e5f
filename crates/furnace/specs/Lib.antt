pub mod Words
pub mod Settings
pub mod Seen
