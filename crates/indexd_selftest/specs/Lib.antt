pub mod Lines
pub mod Blocks
pub mod Requests
pub mod History
pub mod Faults
pub mod Full
pub mod Given
