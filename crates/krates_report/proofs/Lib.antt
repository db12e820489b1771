pub mod BuildsWithoutIndex
pub mod LineLemmas
pub mod OneSetting
pub mod OthersLemmas
