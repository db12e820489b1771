pub mod KeptCrates
pub mod References
pub mod Saturation
