pub mod FactsAgain
pub mod NamingFaults
pub mod NamingsRead
pub mod PartsAgain
pub mod SameFact
