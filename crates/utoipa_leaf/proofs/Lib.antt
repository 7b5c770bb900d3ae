pub mod Pieces
pub mod Versions
pub mod UnambiguousFields
