pub mod Growing
pub mod Following
pub mod Histories
pub mod Passed
