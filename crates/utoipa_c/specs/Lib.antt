pub mod Causes
pub mod Codes
pub mod Documents
