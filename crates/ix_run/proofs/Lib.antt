pub mod Faults
pub mod Gone
pub mod Given
pub mod Stored
pub mod Filled
pub mod Rested
