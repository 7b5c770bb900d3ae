pub mod Trees
pub mod Exact
pub mod Told
pub mod Served
pub mod Documents
pub mod Counts
pub mod TextsRead
pub mod FileDocuments
pub mod EachFile
mod Whole
