pub mod KeptFacts
pub mod KeptTables
pub mod PartOfSteps
pub mod Selection
pub mod Trace
