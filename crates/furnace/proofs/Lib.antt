pub mod Pairs
pub mod Bytes
pub mod Firings
pub mod Readings
