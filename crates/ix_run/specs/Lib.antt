pub mod Running
pub mod Giving
pub mod Storing
pub mod Resting
pub mod Placed
