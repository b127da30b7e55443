pub mod RecordLists
pub mod LineLemmas
pub mod BucketLists
pub mod Progress
pub mod FieldLemmas
pub mod TextLineLemmas
