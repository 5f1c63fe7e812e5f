pub mod Commit
pub mod View
pub mod Touch
pub mod Laws
