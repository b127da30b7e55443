pub mod Blocks
pub mod Giving
pub mod Filling
pub mod Visiting
pub mod Passing
pub mod Going
