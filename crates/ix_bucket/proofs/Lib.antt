pub mod Sizes
pub mod Records
pub mod Shown
pub mod Left
