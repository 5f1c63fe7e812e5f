pub mod Rounds
pub mod Ring
pub mod View
pub mod Steps
pub mod Updates
