pub mod ClosingLemmas
pub mod ClosureLemmas
pub mod NeededLemmas
