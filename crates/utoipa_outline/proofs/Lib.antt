pub mod OnLines
pub mod Naming
pub mod Names
pub mod Counts
