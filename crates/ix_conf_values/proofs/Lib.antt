pub mod EscapeLemmas
pub mod FormatLemmas
pub mod TransformLemmas
