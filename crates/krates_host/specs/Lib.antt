pub mod AskedBuild
pub mod Flags
pub mod Reading
pub mod Running
pub mod Status
