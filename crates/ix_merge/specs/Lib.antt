pub mod Starts
pub mod Events
pub mod Sizes
pub mod Carry
pub mod Place
pub mod Stands
pub mod Laws
