pub mod AfterLemmas
pub mod MatchLemmas
pub mod TextLemmas
pub mod ReplaceLemmas
pub mod SizeLemmas
pub mod TurnLemmas
