pub mod Acceptance
pub mod Closedness
pub mod Finding
pub mod GivenFacts
