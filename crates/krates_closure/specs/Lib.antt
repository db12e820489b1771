pub mod Clauses
pub mod Closing
pub mod Closure
pub mod Marks
pub mod Needed
