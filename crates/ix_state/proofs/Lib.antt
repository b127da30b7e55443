pub mod OneMerge
mod Refusals
mod Lists
mod CheckLemmas
mod ConfigLemmas
mod Alike
mod Merges
mod Moves
mod KeptLemmas
mod NameLemmas
pub mod Brief
pub mod Known
pub mod Thawing
pub mod Judged
pub mod Merged
pub mod Breaking
pub mod Fitting
pub mod Nearest
pub mod Chosen
pub mod Loaded
mod Choosing
