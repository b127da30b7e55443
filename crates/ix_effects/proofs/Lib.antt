pub mod Rising
pub mod Lists
pub mod Numbers
pub mod Names
pub mod Writable
pub mod Going
pub mod Standing
pub mod Saying
pub mod Dealt
pub mod Turned
pub mod Rolled
pub mod Thawed
pub mod Configured
mod Failing
