pub mod Configs
pub mod Taken
pub mod Checks
pub mod Files
pub mod Keeping
pub mod Held
pub mod Causes
pub mod Choosers
