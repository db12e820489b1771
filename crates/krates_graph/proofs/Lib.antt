pub mod AgendaLemmas
pub mod GraphLemmas
