pub mod AskedLemmas
pub mod CallLemmas
pub mod ChosenLemmas
pub mod DrawnLinesLemmas
pub mod HandingLemmas
pub mod LawLemmas
pub mod LineLemmas
pub mod RefusalLemmas
