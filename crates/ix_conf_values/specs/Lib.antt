pub mod Plain
pub mod Patterns
pub mod Escapes
pub mod Seds
pub mod Formats
pub mod Values
pub mod Transforms
pub mod Lent
