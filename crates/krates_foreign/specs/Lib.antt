pub mod Asked
pub mod CallRefusalText
pub mod Calls
pub mod Documents
pub mod DrawnLines
pub mod Handing
pub mod Status
pub mod StoredLines
