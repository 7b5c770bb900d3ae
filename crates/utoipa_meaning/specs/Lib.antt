pub mod Meaning
pub mod Operations
pub mod Changes
pub mod Unchanged
pub mod Texts
pub mod Views
pub mod Examples
