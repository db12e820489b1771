pub mod Command
pub mod FeatureChoice
pub mod CargoOptions
pub mod Output
pub mod Running
pub mod Setters
