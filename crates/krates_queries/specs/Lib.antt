pub mod Direct
pub mod Drawn
pub mod Kept
pub mod KrateNodes
pub mod Numbers
pub mod Reached
pub mod Why
