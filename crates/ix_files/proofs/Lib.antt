pub mod Segments
pub mod Adding
pub mod Finding
