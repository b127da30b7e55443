pub mod Record
pub mod Reading
pub mod Append
pub mod Ahead
pub mod Count
