mod Finished
mod Following
