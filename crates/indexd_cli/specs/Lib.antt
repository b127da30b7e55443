pub mod Table
pub mod Values
pub mod Orders
pub mod Shown
pub mod Plain
