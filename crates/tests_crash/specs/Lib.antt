pub mod History
pub mod Walks
