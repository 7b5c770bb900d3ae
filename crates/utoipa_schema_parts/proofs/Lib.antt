pub mod Counts
mod Mappings
pub mod ReadFormats
pub mod ReadTypes
pub mod SameXml
pub mod UnambiguousFields
