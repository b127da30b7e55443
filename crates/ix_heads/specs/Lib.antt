pub mod Limits
pub mod Heads
pub mod Lines
pub mod Lengths
pub mod Reads
pub mod Judging
pub mod Fronts
