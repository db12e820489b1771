pub mod FactModels
pub mod FactOrder
pub mod InitialRows
pub mod Mattering
pub mod Meanings
pub mod Rows
pub mod Steps
