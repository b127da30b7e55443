pub mod Monitored
pub mod Growing
