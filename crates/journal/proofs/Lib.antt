pub mod Views
pub mod Touching
pub mod Slots
pub mod Staging
pub mod Committing
