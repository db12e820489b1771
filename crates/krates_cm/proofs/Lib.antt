pub mod CopyLemmas
pub mod QueryLemmas
