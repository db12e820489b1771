pub mod Grounding
pub mod Numbers
