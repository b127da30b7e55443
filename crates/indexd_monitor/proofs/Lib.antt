pub mod Stopping
pub mod Turns
pub mod Visited
pub mod Passed
pub mod Growing
