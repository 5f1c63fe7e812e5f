pub mod Slots
pub mod Bytes
pub mod Headers
pub mod Made
