pub mod Paths
pub mod Sought
