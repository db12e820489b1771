pub mod FactWords
pub mod NamedFacts
pub mod NamedParts
pub mod NamedPlaces
pub mod Naming
pub mod PartTexts
pub mod WrittenParts
