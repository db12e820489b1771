pub mod Checked
pub mod ClosedLists
pub mod Through
