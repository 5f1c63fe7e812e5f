pub mod Held
pub mod Place
pub mod Table
