pub mod IdLemmas
pub mod ItemLemmas
pub mod NeverBoth
pub mod OneReading
pub mod PartsAgain
pub mod TextLemmas
