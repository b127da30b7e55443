mod LeastLemmas
mod OrderLemmas
mod PrefixLemmas
pub mod ItemLemmas
mod LimitsLemmas
pub mod RetiredLemmas
