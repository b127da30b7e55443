pub mod Takes
pub mod Shuffles
pub mod Seen
pub mod Turns
pub mod Refusals
pub mod Defaults
pub mod Lives
pub mod Said
pub mod Gathers
pub mod CarryForms
pub mod IndexBuckets
pub mod Holding
pub mod Firsts
mod Putting
mod Carried
mod WholeSaid
mod Resting
mod Found
mod Held
mod Brief
mod Written
mod Sound
pub mod RangeBrief
pub mod RangeLives
pub mod Added
pub mod Stored
pub mod Members
pub mod Booked
pub mod Slots
pub mod Listing
pub mod Ranged
pub mod Times
pub mod Summing
pub mod Within
pub mod ListFitting
pub mod Telling
pub mod Permuted
pub mod Shortened
pub mod Sized
pub mod Parted
pub mod Ledgers
pub mod Blamed
mod Good
mod Failing
