pub mod Answered
pub mod FactRefOrder
pub mod FactSetLemmas
pub mod Givings
pub mod ReferenceForms
pub mod Rows
