pub mod Watching
pub mod Visits
pub mod Passes
