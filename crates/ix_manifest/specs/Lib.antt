pub mod Book
pub mod Keys
pub mod Plain
pub mod Repeats
pub mod Replaying
pub mod Root
pub mod Slots
pub mod Whole
