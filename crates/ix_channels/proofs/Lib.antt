pub mod Briefness
pub mod Carries
pub mod Sized
pub mod Channels
pub mod BegunLemmas
pub mod TakenLemmas
pub mod EndedLemmas
pub mod PutLemmas
pub mod Within
pub mod Alike
mod Failing
