pub mod Record
pub mod Law
