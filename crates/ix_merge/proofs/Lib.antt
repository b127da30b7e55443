pub mod ListLemmas
pub mod GroupLemmas
pub mod MarkLemmas
pub mod Adding
pub mod Laws
