pub mod ShownLemmas
pub mod ShownLaws
