pub mod Growing
pub mod Turning
pub mod Visiting
pub mod Known
pub mod Reading
pub mod Ended
pub mod Placing
