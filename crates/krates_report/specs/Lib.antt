pub mod Builds
pub mod LineTexts
pub mod Lines
