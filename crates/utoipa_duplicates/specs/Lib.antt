pub mod Duplicates
pub mod Views
