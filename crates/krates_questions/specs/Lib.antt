pub mod Availability
pub mod Context
pub mod DocumentAnswers
pub mod FeatureTable
pub mod Lookup
pub mod NameIndex
pub mod NodeEntry
pub mod ReferentPlace
