pub mod LayerLemmas
pub mod MergedLemmas
pub mod ValueLemmas
pub mod GivenLemmas
pub mod InputLemmas
