pub mod Comparisons
pub mod Document
pub mod Errors
pub mod Names
pub mod PackageParts
pub mod Queries
