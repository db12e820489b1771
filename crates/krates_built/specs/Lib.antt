pub mod BuildLists
pub mod BuiltBy
pub mod FactLists
pub mod FeaturesOf
pub mod OrderAt
pub mod Refusals
