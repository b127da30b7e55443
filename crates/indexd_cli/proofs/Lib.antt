pub mod TableLemmas
pub mod TableSteps
pub mod ParseLemmas
pub mod ValueLemmas
pub mod PlainLemmas
