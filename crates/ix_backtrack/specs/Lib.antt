pub mod Frames
pub mod Tried
