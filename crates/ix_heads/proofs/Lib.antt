pub mod ToldLemmas
pub mod FrontLemmas
pub mod ReadLemmas
pub mod HeadLemmas
pub mod ScanLemmas
pub mod MayLemmas
