mod InputLemmas
pub mod Stating
