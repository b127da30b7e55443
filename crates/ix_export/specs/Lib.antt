pub mod Lines
pub mod Stored
pub mod Faults
pub mod Stops
pub mod Steps
pub mod EventLine
