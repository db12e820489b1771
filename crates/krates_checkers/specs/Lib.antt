pub mod CheckRefusals
pub mod CheckedDocument
pub mod Using
