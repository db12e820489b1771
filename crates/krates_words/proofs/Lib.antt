pub mod IgnoresTooLemmas
pub mod ManifestLemmas
pub mod SelectionLemmas
pub mod SplitLemmas
