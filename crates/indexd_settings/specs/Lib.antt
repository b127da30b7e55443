pub mod Layers
pub mod Merged
pub mod Faults
pub mod Texts
pub mod Configuration
pub mod Given
pub mod Inputs
