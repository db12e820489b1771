pub mod Found
pub mod KeptLists
pub mod Links
pub mod SearchContext
pub mod SearchState
