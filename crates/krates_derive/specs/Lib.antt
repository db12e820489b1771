pub mod FactRef
pub mod Following
pub mod Giving
