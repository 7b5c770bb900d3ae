pub mod Compositions
pub mod Made
