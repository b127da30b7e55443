pub mod Feeding
pub mod Connections
pub mod Reading
