pub mod DirectLemmas
pub mod FoundLemmas
pub mod KrateNodeLemmas
pub mod NodeLemmas
pub mod ReachedLemmas
pub mod StretchLemmas
pub mod WhyLemmas
