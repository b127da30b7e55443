pub mod Buffers
pub mod Going
pub mod Filled
pub mod Blocking
pub mod Seeing
pub mod Joining
pub mod Leaving
pub mod Going_on
