pub mod Faults
pub mod Laws
pub mod Objects
pub mod Tables
