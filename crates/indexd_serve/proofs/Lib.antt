pub mod Opening
pub mod Ending
pub mod Behind
pub mod Reading
pub mod Placing
