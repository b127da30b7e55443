pub mod DecimalLemmas
pub mod NumberLemmas
pub mod NameLemmas
pub mod FormatLemmas
pub mod FrontLemmas
pub mod ChoiceLemmas
pub mod YearLemmas
