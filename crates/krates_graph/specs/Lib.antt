pub mod Adjacency
pub mod Agenda
pub mod Graph
pub mod GraphErrorText
pub mod SameErrors
