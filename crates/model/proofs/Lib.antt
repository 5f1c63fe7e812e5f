pub mod Tests
pub mod Order
pub mod Card
pub mod Format
pub mod Calls
pub mod Opening
