pub mod Paths
pub mod Inputs
pub mod Steps
