pub mod Guarding
pub mod Working
pub mod Moving
