pub mod Faults
pub mod Plans
pub mod Told
pub mod Clocks
pub mod Lent
pub mod Stream
