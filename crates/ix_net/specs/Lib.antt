pub mod Links
pub mod Listeners
pub mod Waiting
