pub mod Stops
pub mod Shortened
pub mod Ends
pub mod Opened
pub mod Tasks
pub mod Previews
pub mod Asked
pub mod Blamed
