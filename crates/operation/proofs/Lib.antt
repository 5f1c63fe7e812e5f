pub mod Zeros
pub mod Tables
pub mod Listing
pub mod Padding
